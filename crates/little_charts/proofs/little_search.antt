pub mod Ruled
pub mod Alike
pub mod Same
