pub mod TaxiLemmas
pub mod StandLemmas
pub mod RowLemmas
