pub mod Widths
pub mod Lengths
pub mod CountLemmas
pub mod Pairs
