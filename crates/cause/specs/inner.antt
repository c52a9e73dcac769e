pub mod CauseContracts
pub mod TableCauses
