pub mod Layout
pub mod Chart
pub mod Check
pub mod Meaning
pub mod Entry
pub mod inner
