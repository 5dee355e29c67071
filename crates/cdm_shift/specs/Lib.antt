pub mod Held
pub mod StartUps
pub mod Warnings
pub mod Costs
pub mod Lines
pub mod Objects
pub mod Sheets
pub mod Answers
