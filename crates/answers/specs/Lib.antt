pub mod Cover
pub mod Counts
pub mod Judgement
pub mod Shares
pub mod Edge
pub mod Ranges
