pub mod Walks
pub mod Prepared
