pub mod Tick
pub mod Functions
pub mod inner
pub mod codes
