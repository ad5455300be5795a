pub mod Cuts
pub mod Laws
pub mod Lists
pub mod Wholes
pub mod Wrongs
