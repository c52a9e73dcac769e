pub mod Depths
pub mod Fitness
pub mod FitCases
