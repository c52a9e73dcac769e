pub mod Entry
pub mod group_numbers
pub mod inner
