pub mod Opening
pub mod Stops
pub mod Jobs
