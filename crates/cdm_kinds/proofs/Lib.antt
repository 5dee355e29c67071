pub mod KindLemmas
pub mod TokenLemmas
