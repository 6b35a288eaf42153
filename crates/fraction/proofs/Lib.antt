pub mod Inside
pub mod Contains
pub mod Hull
pub mod Sum
pub mod Product
pub mod Quotient
pub mod Meaning
