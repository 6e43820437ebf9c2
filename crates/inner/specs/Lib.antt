pub mod Formed
pub mod Steps
pub mod Inner
