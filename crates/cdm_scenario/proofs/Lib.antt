pub mod Words
pub mod OverlayLemmas
pub mod OutcomeLemmas
mod NameLemmas
