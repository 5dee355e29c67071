pub mod Aimed
pub mod Together
pub mod Work
