pub mod Exactly
pub mod Full
pub mod Limits
pub mod Product
pub mod Standing
