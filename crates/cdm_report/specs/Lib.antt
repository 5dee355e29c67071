pub mod Columns
pub mod Counts
pub mod Report
pub mod Delta
pub mod Made
pub mod inner
