-- Laws of the answers that belong to no one function.
pub mod Counting
pub mod Covering
pub mod Cases
pub mod Judging
pub mod Agreed
pub mod Percents
pub mod Completeness
pub mod Edging
