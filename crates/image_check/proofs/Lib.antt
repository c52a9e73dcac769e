pub mod PositionCases
pub mod TableCases
pub mod ReadCases
