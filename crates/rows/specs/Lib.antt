pub mod Sum
pub mod Exact
pub mod Whole
pub mod Code
pub mod Word
