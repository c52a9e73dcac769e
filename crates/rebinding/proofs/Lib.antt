pub mod Keeps
pub mod Held
pub mod Live
pub mod RebindCases
pub mod EntryCases
pub mod Sourced
pub mod Alike
