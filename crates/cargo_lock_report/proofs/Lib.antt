mod Uris
mod Logs
pub mod Filtered
mod Bytes
mod Listed
