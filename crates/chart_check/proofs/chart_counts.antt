pub mod SchemeCounts
pub mod PassLoops
