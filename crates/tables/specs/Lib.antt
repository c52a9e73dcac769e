pub mod Prepare
pub mod Table
pub mod Prepared
pub mod inner
