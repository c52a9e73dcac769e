pub mod Normal
pub mod Leads
pub mod Changes
pub mod Keeps
pub mod TickCases
pub mod RowCases
pub mod Functions
