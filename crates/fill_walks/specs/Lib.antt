pub mod Promises
pub mod ForC
