pub mod Digits
pub mod Dates
pub mod Windows
pub mod Times
