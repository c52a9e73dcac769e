pub mod Fewest
pub mod Again
