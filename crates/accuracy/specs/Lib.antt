pub mod Solution
pub mod Claim
pub mod Changing
pub mod Example
