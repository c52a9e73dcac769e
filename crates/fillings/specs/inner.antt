pub mod Forks
pub mod TallyContracts
