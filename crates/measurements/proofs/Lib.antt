pub mod Falling
pub mod Pieces
