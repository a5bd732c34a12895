-- Laws of what is written, and of reading it back, which belong to no one function.
pub mod Output
pub mod Whole
pub mod Again
pub mod Back
pub mod Stable
