-- Laws of the units that belong to no one function.
pub mod Choice
pub mod FullTicks
pub mod Guards
pub mod Makers
pub mod Signed
pub mod Stamps
