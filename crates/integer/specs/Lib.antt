pub mod Rounding
pub mod Extremes
pub mod Total
