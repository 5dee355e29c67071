mod RecordLemmas
pub mod TextLemmas
