pub mod Interval
pub mod Answer
pub mod Code
