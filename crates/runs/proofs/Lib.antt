-- Laws of the table that belong to no one function.
pub mod Opening
pub mod Encoded
pub mod Tables
pub mod EndToStart
pub mod Ends
pub mod Moving
pub mod Walking
pub mod Dropping
pub mod Storing
pub mod Walked
