pub mod Candidates
pub mod Turns
pub mod Shown
