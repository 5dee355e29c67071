pub mod LineLemmas
pub mod ObjectLemmas
pub mod NoFeedLemmas
