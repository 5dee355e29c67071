pub mod Intervals
pub mod Search
pub mod Tally
