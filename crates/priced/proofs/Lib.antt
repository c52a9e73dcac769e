pub mod AsRuns
pub mod Chain
pub mod Charts
pub mod Delivered
pub mod ForC
