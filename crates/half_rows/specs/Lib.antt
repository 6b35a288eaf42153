pub mod Rows
pub mod State
pub mod Operations
pub mod Code
