pub mod Digit
pub mod Alike
pub mod Members
