pub mod WatchedCalls
pub mod Walks
pub mod Prepared
