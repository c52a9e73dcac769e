pub mod RunContracts
pub mod Sources
