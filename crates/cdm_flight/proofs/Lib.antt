pub mod Lists
pub mod NameLemmas
pub mod NumberLemmas
pub mod JournalLemmas
pub mod RefusalLemmas
pub mod UpdateLemmas
mod WorkedRows
