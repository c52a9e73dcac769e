pub mod Fitness
pub mod inner
