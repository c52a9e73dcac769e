pub mod Listing
pub mod Exact
