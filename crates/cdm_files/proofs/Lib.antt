mod Words
pub mod RecordFacts
pub mod RefusedLemmas
pub mod WrittenLemmas
mod WorkedRecords
pub mod RunLemmas
pub mod FeedDayLemmas
pub mod SeveralLemmas
pub mod StretchLemmas
pub mod RowLemmas
mod KindLemmas
