pub mod Patch
pub mod Report
