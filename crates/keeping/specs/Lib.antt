pub mod Keeping
pub mod Append
pub mod Steps
