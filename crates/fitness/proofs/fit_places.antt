pub mod UpwardCases
