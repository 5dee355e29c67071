pub mod RecordFaults
pub mod RecordsLeft
pub mod Several
