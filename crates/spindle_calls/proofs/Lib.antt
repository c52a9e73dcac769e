pub mod KeptHeads
pub mod Held
pub mod NoPlace
pub mod Row
pub mod Delivered
pub mod ForC
