pub mod TableConditions
pub mod CauseCases
