pub mod Finished
pub mod Marks
