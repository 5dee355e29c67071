pub mod Ran
pub mod Kept
pub mod Begun
pub mod Lives
pub mod AnswerLemmas
pub mod Runs
pub mod StartLemmas
