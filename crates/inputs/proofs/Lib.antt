pub mod Tests
pub mod Place
pub mod Copy
pub mod Early
pub mod System
pub mod Accepted
