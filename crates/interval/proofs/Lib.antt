pub mod Range
pub mod Corners
pub mod Scaled
pub mod Signs
pub mod Quotient
pub mod Answer
pub mod Exchanged
