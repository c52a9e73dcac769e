pub mod Swaps
pub mod ChoiceLaws
pub mod BestRows
pub mod TableRows
pub mod SearchCases
