pub mod Fields
pub mod Frames
pub mod Language
pub mod Worked
