pub mod Run
pub mod TickOutcome
pub mod InPlace
pub mod inner
pub mod machine
