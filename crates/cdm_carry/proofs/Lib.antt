pub mod StayLemmas
pub mod TakingLemmas
pub mod NoticeLemmas
pub mod LawLemmas
pub mod DayLemmas
pub mod MadeLemmas
pub mod NoticedLemmas
mod WorkedRows
