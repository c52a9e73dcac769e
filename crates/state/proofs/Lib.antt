pub mod Sizes
pub mod Stored
pub mod Tidied
