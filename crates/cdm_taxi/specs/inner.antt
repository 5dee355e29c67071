pub mod Keys
pub mod StandSet
