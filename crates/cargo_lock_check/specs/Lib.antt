pub mod Text
pub mod Finding
pub mod Findings
pub mod Sound
pub mod Document
pub mod Reporting
