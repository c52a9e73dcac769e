pub mod FrameReads
pub mod Reads
