pub mod FinishedCases
