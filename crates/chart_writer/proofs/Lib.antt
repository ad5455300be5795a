pub mod Lists
pub mod Sinks
pub mod Texts
