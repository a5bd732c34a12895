-- Laws of the window that belong to no one function.
pub mod Limits
pub mod Making
pub mod Ranges
pub mod Unsigned
pub mod Sides
pub mod Spending
pub mod Division
pub mod Unique
