pub mod Stages
pub mod Turns
pub mod Turned
