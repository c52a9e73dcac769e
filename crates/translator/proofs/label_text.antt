pub mod Puts
pub mod LabelPuts
