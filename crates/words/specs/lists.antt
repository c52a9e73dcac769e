-- Definitions and laws on lists, on ranges of numbers and on lent buffers; no function.
pub mod Numbers
pub mod Sequences
