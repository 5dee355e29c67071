pub mod Words
pub mod CellLemmas
pub mod LoadLemmas
pub mod IntervalLemmas
pub mod RangeLemmas
pub mod RulesLemmas
pub mod PassedLemmas
