pub mod FaultSearch
