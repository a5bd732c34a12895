-- Laws of what is kept, which belong to no one function.
pub mod Outcomes
pub mod Unspent
pub mod Stored
pub mod Appends
pub mod Judged
pub mod Kept
