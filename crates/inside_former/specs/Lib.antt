pub mod Sweeps
pub mod Elimination
pub mod Example
