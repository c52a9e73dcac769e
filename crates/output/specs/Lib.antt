pub mod Readings
pub mod Lines
pub mod Prints
pub mod RunProgram
pub mod TranslateProgram
