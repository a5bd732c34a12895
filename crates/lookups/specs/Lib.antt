pub mod Available
pub mod Spans
pub mod Steps
pub mod Stamps
