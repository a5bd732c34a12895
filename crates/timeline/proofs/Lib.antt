-- Laws of the calls that change, which belong to no one function.
pub mod Opens
pub mod Judged
pub mod Clocks
pub mod Trims
pub mod Kept
pub mod Pairs
