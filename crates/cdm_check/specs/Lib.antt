pub mod Findings
pub mod Check
pub mod Paths
