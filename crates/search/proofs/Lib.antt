pub mod Turn
pub mod Answer
pub mod Words
pub mod Lanes
pub mod Marked
pub mod Claim
