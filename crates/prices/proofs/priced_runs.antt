pub mod Pricing
pub mod EntryCases
pub mod Alike
