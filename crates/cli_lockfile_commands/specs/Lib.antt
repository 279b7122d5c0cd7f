pub mod Translate
pub mod Tree
pub mod Diff
pub mod List
pub mod Why
pub mod Duplicates
pub mod Graph
