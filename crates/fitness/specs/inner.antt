pub mod FitnessContracts
