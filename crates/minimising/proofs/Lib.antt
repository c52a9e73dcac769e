pub mod EntryCases
pub mod Letters
