pub mod Run
pub mod Pivot
pub mod Forward
pub mod Formed
pub mod Code
