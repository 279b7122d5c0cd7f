pub mod Reported
pub mod Escapes
pub mod Uris
pub mod Rules
pub mod Log
pub mod Annotations
