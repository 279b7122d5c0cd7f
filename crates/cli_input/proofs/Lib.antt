pub mod Flags
pub mod Limits
pub mod Names
pub mod Telling
