-- Laws of the report that belong to no one function.
pub mod Shown
pub mod Clocks
pub mod Desks
pub mod Lent
pub mod Pieces
pub mod Settling
pub mod Turns
