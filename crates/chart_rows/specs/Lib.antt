pub mod Rows
pub mod inner
pub mod Labels
