pub mod Words
pub mod Encoding
pub mod Shape
pub mod Ends
pub mod Steps
pub mod Walk
