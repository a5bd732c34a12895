pub mod Clock
pub mod Answer
pub mod Feeding
pub mod Settled
pub mod Running
pub mod Worked
