pub mod Live
pub mod Prepared
