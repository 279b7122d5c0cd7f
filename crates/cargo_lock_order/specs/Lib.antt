pub mod Canonical
pub mod Order
pub mod Precedence
