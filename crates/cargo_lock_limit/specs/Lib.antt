pub mod Lengths
pub mod Limits
pub mod Matched
