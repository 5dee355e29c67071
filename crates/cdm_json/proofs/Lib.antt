mod Words
pub mod TokenLemmas
pub mod OneAnswer
pub mod AroundLemmas
mod LoadLemmas
mod ReadBack
