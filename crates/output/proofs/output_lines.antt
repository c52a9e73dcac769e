pub mod Printed
pub mod Limits
pub mod Outcomes
