pub mod Dependency
pub mod Linked
pub mod Package
pub mod Leads
pub mod Document
