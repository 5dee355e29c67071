pub mod Rules
pub mod Room
pub mod Load
pub mod Passed
pub mod inner
