pub mod Fraction
pub mod Meaning
