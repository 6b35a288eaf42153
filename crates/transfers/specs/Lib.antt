pub mod Listing
pub mod Call
pub mod Code
pub mod Rows
