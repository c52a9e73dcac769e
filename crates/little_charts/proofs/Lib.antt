pub mod Members
pub mod Order
pub mod Nodes
pub mod Listing
pub mod little_search
pub mod little_totals
