pub mod Enough
pub mod Smaller
