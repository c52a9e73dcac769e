pub mod Depths
pub mod PlacesBalance
