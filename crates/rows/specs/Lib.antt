pub mod Rows
pub mod Choices
pub mod inner
pub mod listing
