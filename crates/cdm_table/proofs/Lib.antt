mod Words
pub mod TableLemmas
pub mod MemberLemmas
mod LineLemmas
mod StepLemmas
mod NameColumn
mod OwnLemmas
mod LeftLemmas
