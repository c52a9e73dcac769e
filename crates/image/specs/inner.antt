pub mod Sound
pub mod FrameContracts
