pub mod Masks
pub mod Leaves
pub mod Explained
pub mod Answers
pub mod ConditionCases
pub mod Alike
