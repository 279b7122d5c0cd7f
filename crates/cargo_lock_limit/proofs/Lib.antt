pub mod Counting
pub mod Matches
pub mod Meanings
