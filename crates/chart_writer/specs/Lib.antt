pub mod Faults
pub mod Sinks
pub mod Writes
