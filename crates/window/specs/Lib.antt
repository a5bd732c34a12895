pub mod Limits
pub mod Place
pub mod Window
pub mod References
pub mod Ticks
pub mod Steps
