-- Laws of agreement that belong to no one function.
pub mod Runs
pub mod Zeros
pub mod Scanning
pub mod Judging
pub mod Agreeing
pub mod Numbers
