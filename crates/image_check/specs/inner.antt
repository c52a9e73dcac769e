pub mod CheckedFrames
pub mod FaultyFrames
pub mod FieldTests
