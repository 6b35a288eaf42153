pub mod Pass
pub mod Call
pub mod Calls
pub mod Code
