pub mod Checks
pub mod Firsts
pub mod Landings
pub mod Meant
pub mod Rower
pub mod Tells
pub mod Tree
