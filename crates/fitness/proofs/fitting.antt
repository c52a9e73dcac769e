pub mod ServedCases
pub mod TriedInOrder
