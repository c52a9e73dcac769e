pub mod EntryCases
