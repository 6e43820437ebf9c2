pub mod Kept
pub mod Shorter
