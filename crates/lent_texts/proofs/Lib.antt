pub mod Opened
pub mod Ample
