pub mod Answers
pub mod Output
pub mod Made
pub mod Counts
pub mod Inputs
pub mod inner
