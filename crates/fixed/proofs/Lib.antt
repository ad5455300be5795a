pub mod Lasts
pub mod Fills
