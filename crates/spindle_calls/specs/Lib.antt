pub mod Held
pub mod NoPlace
pub mod ObservedCalls
pub mod Delivered
pub mod ForC
