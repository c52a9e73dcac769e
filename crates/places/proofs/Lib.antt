pub mod EntrySteps
pub mod Reported
pub mod Alike
