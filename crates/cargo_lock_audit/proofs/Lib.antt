mod Covered
mod Exact
mod Members
mod OneLine
mod Ordered
pub mod Strips
mod Walk
pub mod DocumentDepth
