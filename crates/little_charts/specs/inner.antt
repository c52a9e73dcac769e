pub mod Search
pub mod Samples
