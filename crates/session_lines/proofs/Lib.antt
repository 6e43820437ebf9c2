pub mod Turns
pub mod Session
pub mod Holding
