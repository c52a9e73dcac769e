pub mod Computed
pub mod Counted
pub mod Turns
