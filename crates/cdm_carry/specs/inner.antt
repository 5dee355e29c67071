pub mod Leaving
pub mod Steps
pub mod NoticeLines
