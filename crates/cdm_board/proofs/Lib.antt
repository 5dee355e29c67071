pub mod Boards
pub mod Desks
pub mod Histories
pub mod Places
pub mod UpdateLemmas
