pub mod Normal
pub mod Keeps
pub mod RunCounts
pub mod TurnCases
pub mod RunCases
pub mod Alike
