pub mod Smaller
pub mod Renumbered
