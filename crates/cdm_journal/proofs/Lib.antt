pub mod TextLemmas
pub mod LineLemmas
pub mod WholeLemmas
pub mod RecordLemmas
pub mod ReadLemmas
pub mod LengthLemmas
