pub mod MarkCases
pub mod Sweeps
