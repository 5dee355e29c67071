mod PostLemmas
pub mod RowReplyLemmas
