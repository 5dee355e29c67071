pub mod Airport
pub mod Day
pub mod Sound
pub mod Planning
pub mod DayPlan
pub mod Brief
pub mod Kept
pub mod inner
