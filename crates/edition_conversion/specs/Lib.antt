pub mod Converted
pub mod Converting
