pub mod Sizes
pub mod Frame
pub mod Verdict
pub mod Check
pub mod Refusal
pub mod Answer
pub mod Read
pub mod Alike
