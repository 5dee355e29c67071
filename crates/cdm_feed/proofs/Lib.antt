pub mod OutputLemmas
pub mod RunLemmas
pub mod AskedLemmas
mod MadeLemmas
