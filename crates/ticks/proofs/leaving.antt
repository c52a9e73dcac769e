pub mod LeavingCases
