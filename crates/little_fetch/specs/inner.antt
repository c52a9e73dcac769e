pub mod SeekContracts
pub mod Trails
