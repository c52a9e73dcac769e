pub mod CallLaws
pub mod Longest
pub mod Circles
pub mod Masks
pub mod CallMasks
