pub mod Renumbered
pub mod Fitting
pub mod SmallerTicks
pub mod Runs
pub mod Accepted
pub mod Charts
pub mod Delivered
