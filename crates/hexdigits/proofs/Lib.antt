-- Laws of digits that belong to no one function.
pub mod Single
pub mod Widths
