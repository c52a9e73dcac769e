pub mod Shares
pub mod TallyTurns
pub mod Zeros
