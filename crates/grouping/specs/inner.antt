pub mod GroupingContracts
pub mod Parts
pub mod Touches
pub mod Links
