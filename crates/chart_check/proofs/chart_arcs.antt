pub mod FaultCases
