mod ListLemmas
mod EndLemmas
mod LawLemmas
pub mod OptionLemmas
