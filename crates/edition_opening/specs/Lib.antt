pub mod Editions
pub mod Lines
