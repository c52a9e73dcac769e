pub mod SpreadSteps
pub mod Entries
pub mod RoundTrips
