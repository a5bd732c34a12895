-- Laws of the answer's text that belong to no one function.
pub mod Placed
pub mod Decimals
pub mod Worded
pub mod Shares
pub mod Figures
