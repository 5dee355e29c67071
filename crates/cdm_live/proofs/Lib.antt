pub mod BatchLemmas
pub mod DeskLemmas
pub mod LiveLemmas
