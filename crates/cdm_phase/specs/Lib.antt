pub mod Piece
pub mod Slots
