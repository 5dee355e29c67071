pub mod EqualRows
pub mod RowLemmas
pub mod PassedLemmas
pub mod OverLemmas
pub mod TokenLemmas
