pub mod NextDay
pub mod Unnoticed
pub mod AllAccepted
pub mod Flights
