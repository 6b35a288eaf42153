pub mod Wide
pub mod Code
