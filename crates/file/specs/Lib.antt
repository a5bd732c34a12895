pub mod Lines
pub mod SoFar
pub mod Least
pub mod Judging
pub mod Feeding
pub mod Settled
pub mod Sound
pub mod Worked
