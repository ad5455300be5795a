pub mod Checks
pub mod Faults
pub mod Hierarchies
pub mod Laws
pub mod Meant
pub mod Rower
pub mod Rules
