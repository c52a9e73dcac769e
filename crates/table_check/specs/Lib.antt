pub mod TableCheck
pub mod Laws
