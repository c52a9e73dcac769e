pub mod Alike
pub mod PlacingCases
pub mod NotingCases
pub mod Passed
pub mod Unnoted
pub mod Prepared
