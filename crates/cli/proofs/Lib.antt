pub mod Arguments
pub mod Outcomes
pub mod Subcommand
pub mod Merging
