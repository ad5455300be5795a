pub mod Lists
pub mod Loops
pub mod Said
pub mod Somes
pub mod Transitions
