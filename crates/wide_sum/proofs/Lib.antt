pub mod Near
pub mod Carry
pub mod Lowered
pub mod Joined
pub mod Parts
