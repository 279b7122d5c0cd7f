pub mod Check
pub mod Commands
pub mod Counts
pub mod Ending
pub mod Merge
