pub mod OneCall
pub mod Others
pub mod Live
pub mod InParts
