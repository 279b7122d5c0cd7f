pub mod Carets
pub mod OwnChecksums
pub mod Told
pub mod Sound
pub mod OneLine
pub mod DocumentDepth
