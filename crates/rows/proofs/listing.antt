pub mod Between
pub mod Laws
pub mod Answers
pub mod FillCases
pub mod Alike
