pub mod Sums
pub mod Reach
pub mod Call
pub mod Ready
pub mod Code
