pub mod Journal
pub mod Lines
pub mod Reading
pub mod Laws
