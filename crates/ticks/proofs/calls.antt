pub mod CallCases
pub mod CalleeCases
