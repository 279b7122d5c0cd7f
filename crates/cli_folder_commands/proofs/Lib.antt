pub mod Expressions
pub mod Reasoning
