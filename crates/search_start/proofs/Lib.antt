pub mod Matching
pub mod Starting
