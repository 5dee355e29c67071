mod TraceLemmas
mod LineLemmas
mod SinceLemmas
mod BatchLemmas
pub mod OneTrace
