pub mod Matched
pub mod Common
pub mod inner
