pub mod Drawn
pub mod Held
pub mod Homes
pub mod Stages
