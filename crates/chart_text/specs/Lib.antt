pub mod Counts
pub mod Keys
pub mod Texts
