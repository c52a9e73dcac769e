pub mod Spindles
pub mod Laws
pub mod inner
pub mod spindle_places
