pub mod Sums
pub mod Bits
