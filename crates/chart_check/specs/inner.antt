pub mod CheckContracts
pub mod FieldContracts
pub mod Counts
pub mod FinishContracts
pub mod MarkContracts
