pub mod Magnitude
pub mod Lines
pub mod Sums
pub mod Every
pub mod Reach
pub mod Widen
