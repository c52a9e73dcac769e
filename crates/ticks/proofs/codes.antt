pub mod CodeCases
pub mod CodeLaws
