pub mod Live
pub mod LiveFaults
pub mod inner
