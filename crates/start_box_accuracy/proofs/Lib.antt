pub mod Magnitude
pub mod Contraction
pub mod Reached
pub mod Row
pub mod Holds
pub mod Kept
