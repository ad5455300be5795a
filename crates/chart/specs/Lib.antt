pub mod Ids
pub mod Kinds
pub mod Plans
pub mod Spellings
