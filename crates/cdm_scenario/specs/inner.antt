pub mod Changed
pub mod OneOutcome
pub mod Padded
