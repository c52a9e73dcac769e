pub mod Search
pub mod NextMatch
pub mod ListingContracts
