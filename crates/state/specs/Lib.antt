pub mod State
pub mod Kept
pub mod StoredBack
pub mod Changes
