pub mod Places
pub mod Turns
pub mod Runs
