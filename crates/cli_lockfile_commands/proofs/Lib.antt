pub mod Pieces
pub mod Fitting
pub mod Starting
pub mod Words
