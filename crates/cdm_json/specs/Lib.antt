pub mod Lines
pub mod Plans
pub mod Whys
pub mod Loads
pub mod Records
pub mod Answers
pub mod inner
