pub mod Words
pub mod Slots
pub mod Targets
pub mod Fixed
pub mod Plan
pub mod Aims
pub mod Sequence
pub mod inner
