pub mod Rule
pub mod Classes
pub mod Fewest
pub mod inner
