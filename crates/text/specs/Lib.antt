pub mod Bytes
pub mod Parts
pub mod Number
pub mod Names
pub mod Text
pub mod Call
pub mod Code
