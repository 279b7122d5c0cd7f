mod Walks
mod Numbers
mod Own
pub mod Items
pub mod LineDepth
