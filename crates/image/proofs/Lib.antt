pub mod Written
pub mod Decoded
pub mod Passes
pub mod Accepted
pub mod Rising
pub mod Refuses
pub mod HeaderCases
pub mod Alike
