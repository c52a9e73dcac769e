pub mod Prices
pub mod priced_runs
pub mod Promises
