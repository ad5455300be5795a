pub mod Outlines
pub mod Regions
pub mod Tables
pub mod Trees
