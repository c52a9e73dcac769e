pub mod CutOff
pub mod Found
