pub mod Destination
pub mod Output
pub mod Fault
pub mod Input
pub mod Status
pub mod Terminal
pub mod Time
