pub mod Back
pub mod Call
pub mod Claim
pub mod Code
