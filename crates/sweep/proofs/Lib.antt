pub mod Tests
pub mod Ends
pub mod Changed
pub mod Turns
pub mod Pass
pub mod Log
pub mod Kept
