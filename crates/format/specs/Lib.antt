pub mod Bytes
pub mod Elements
pub mod Faults
pub mod Gives
pub mod Readers
pub mod Wrongs
pub mod Numbers
