pub mod Ends
pub mod Flat
