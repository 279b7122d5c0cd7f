mod Classes
mod Exact
mod ExactEntries
mod ExactFolders
mod Listing
mod OneLine
pub mod DocumentDepth
