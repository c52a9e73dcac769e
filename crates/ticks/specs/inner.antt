pub mod TickContracts
pub mod Leaves
pub mod Callees
