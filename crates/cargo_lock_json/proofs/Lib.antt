pub mod Pieces
pub mod Depths
