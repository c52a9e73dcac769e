pub mod Numbering
pub mod Led
pub mod Renumbered
pub mod NumberCases
