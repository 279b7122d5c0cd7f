pub mod Writes
pub mod Arguments
pub mod Digits
pub mod TerminalTexts
