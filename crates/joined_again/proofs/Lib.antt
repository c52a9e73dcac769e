pub mod Again
pub mod Shorter
pub mod Texts
