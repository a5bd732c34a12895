pub mod Face
pub mod Binding
