pub mod OneTable
pub mod OwnRows
pub mod Lines
pub mod Refusals
