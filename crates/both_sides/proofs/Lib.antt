pub mod Joins
pub mod Steps
