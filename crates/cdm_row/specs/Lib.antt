pub mod Rows
pub mod Columns
pub mod Json
pub mod Changed
pub mod inner
