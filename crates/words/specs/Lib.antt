pub mod lists
pub mod bits
pub mod graph
pub mod inner
