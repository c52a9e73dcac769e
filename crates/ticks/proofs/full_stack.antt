pub mod FullCases
