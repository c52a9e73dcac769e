pub mod digits
pub mod frames
pub mod inner
