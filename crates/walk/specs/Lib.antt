pub mod Stops
pub mod Walk
pub mod Functions
pub mod Unbounded
pub mod Unswapped
pub mod Simpler
