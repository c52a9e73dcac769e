pub mod Codes
pub mod CodesApart
