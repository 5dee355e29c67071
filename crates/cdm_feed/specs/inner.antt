pub mod OneAnswer
pub mod Over
