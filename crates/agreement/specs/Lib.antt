pub mod Agreement
pub mod Finding
pub mod Numbers
pub mod Rows
