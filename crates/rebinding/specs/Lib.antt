pub mod Rebind
pub mod Laws
pub mod inner
