pub mod Stops
pub mod LineLemmas
pub mod WriteLemmas
pub mod CallLemmas
pub mod RenameLemmas
pub mod ReadLemmas
