pub mod FilledCases
