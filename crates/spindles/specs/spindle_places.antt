-- What holds over every list of calls of four spindles: laws alone.
pub mod Calls
pub mod PlacesBalance
