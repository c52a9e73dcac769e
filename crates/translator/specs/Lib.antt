pub mod Table
pub mod Entry
pub mod Capitals
pub mod inner
