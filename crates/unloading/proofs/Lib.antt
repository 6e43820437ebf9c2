pub mod Unloading
pub mod Recording
