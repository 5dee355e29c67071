pub mod Names
pub mod Scenarios
pub mod Overlay
pub mod Outcome
pub mod inner
