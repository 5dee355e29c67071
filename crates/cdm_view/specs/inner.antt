pub mod Ends
pub mod Kept
pub mod Known
pub mod Passed
pub mod Left
pub mod Earlier
