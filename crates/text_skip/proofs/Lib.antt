pub mod Seen
pub mod Skipping
pub mod Fed
