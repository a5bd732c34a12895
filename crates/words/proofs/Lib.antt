-- Laws of a record as words and of lengths that belong to no one function.
pub mod Words
pub mod Lengths
