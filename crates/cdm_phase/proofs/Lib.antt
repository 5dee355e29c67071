pub mod Values
pub mod Slots
