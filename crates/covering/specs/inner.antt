pub mod CoveringContracts
pub mod Sizes
pub mod Sharing
