pub mod First
pub mod Word
pub mod Claim
