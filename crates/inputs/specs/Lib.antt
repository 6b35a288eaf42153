pub mod Place
pub mod Tests
pub mod System
pub mod Code
