pub mod NextPlace
pub mod Sides
