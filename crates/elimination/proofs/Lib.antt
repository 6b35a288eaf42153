pub mod Back
pub mod Call
pub mod Refused
pub mod Accepted
pub mod Same
pub mod Five
