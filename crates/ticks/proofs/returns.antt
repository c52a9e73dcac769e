pub mod ReturnCases
