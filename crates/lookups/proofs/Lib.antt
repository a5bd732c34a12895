-- Laws of the lookups that belong to no one function.
pub mod Numbering
pub mod Offering
pub mod Spanning
pub mod Exact
