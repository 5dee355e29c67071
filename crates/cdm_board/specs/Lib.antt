pub mod History
pub mod Receipts
pub mod Refusals
pub mod Closing
