pub mod Words
pub mod Lengths
pub mod Tells
