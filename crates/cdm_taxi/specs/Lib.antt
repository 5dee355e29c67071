pub mod Stands
pub mod inner
