pub mod AirportCode
pub mod Judged
pub mod Briefs
pub mod Put
pub mod Tables
