pub mod Opening
pub mod Appending
pub mod Trimming
pub mod Pair
