pub mod Demand
pub mod FreshRun
pub mod Delivered
pub mod ForC
