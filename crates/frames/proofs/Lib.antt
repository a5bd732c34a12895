-- Laws of lines and frames that belong to no one function.
pub mod Cases
pub mod Lines
pub mod Places
pub mod Put
pub mod Rows
