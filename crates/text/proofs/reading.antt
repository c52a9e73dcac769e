pub mod Buffers
pub mod ReadLoops
