pub mod Shown
pub mod Laws
pub mod Writing
pub mod Json
pub mod Value
