pub mod File
pub mod Line
pub mod PackageJson
pub mod SourceJson
