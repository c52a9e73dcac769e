pub mod Runs
pub mod Limits
pub mod Capitals
