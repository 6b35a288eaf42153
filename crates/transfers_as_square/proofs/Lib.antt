pub mod Stands
pub mod Same
pub mod Alike
pub mod Agree
pub mod Plain
pub mod Covered
