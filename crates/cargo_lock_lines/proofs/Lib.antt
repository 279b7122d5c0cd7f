pub mod Documents
pub mod HeldWords
pub mod Plain
pub mod PrintedEdits
pub mod PrintedLines
pub mod PrintedQuotes
pub mod PrintedWords
