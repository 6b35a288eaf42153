pub mod Size
pub mod Sum
pub mod Exact
pub mod Next
pub mod Once
pub mod Encloses
pub mod Whole
pub mod Word
