pub mod Entry
pub mod Reported
pub mod chains
pub mod inner
