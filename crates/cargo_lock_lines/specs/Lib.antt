pub mod Characters
pub mod Quoting
pub mod Sections
pub mod TableOfWords
pub mod Layout
pub mod Held
