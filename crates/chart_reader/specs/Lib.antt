pub mod Inner
pub mod Refusals
pub mod Verdicts
