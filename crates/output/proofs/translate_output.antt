pub mod Translations
pub mod Limits
pub mod Capitals
