pub mod Deep
pub mod ForC
