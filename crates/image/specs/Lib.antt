pub mod Layout
pub mod Image
pub mod Decode
pub mod Check
pub mod inner
