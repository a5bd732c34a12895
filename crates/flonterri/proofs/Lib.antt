-- Laws of the exported calls that belong to no one function.
pub mod Facing
pub mod Refusing
pub mod Binding
