-- Laws of the file, which belong to no one function.
pub mod Counts
pub mod Steps
pub mod SLines
pub mod Places
pub mod Cuts
pub mod SoFar
pub mod Cutting
pub mod Sounding
pub mod Accepted
pub mod Turning
pub mod Stopping
pub mod Pieces
pub mod Settling
pub mod Never
pub mod Clocks
