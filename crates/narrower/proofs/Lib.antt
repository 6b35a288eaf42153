pub mod Box
pub mod Sum
