pub mod Decimal
pub mod Sheet
pub mod Call
pub mod ReadBack
