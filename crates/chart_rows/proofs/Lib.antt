pub mod Parts
pub mod NumberLaws
pub mod PathSteps
pub mod Settled
pub mod PathCases
pub mod RowKinds
pub mod RowSteps
