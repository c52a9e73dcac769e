pub mod Asked
pub mod Prepares
pub mod Labels
pub mod Sources
