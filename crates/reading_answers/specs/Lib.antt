pub mod Nearest
pub mod Served
