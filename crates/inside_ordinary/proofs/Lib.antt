pub mod Pass
pub mod Inside
pub mod Same
