pub mod Exact
pub mod Meanings
pub mod Outcomes
pub mod Steps
pub mod Walks
