pub mod Renamed
pub mod Alike
pub mod Demand
pub mod Delivered
