pub mod Digit
pub mod EachDigit
