pub mod OneLine
pub mod DocumentDepth
pub mod Told
pub mod Packages
pub mod Tables
pub mod References
