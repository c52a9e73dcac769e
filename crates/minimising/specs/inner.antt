pub mod GroupFrames
pub mod JoiningContracts
pub mod NumberContracts
pub mod Pieces
pub mod TextContracts
pub mod WriteContracts
