pub mod CalmWalk
pub mod Made
pub mod Enough
pub mod Smaller
