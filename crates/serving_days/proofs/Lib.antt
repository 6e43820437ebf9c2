pub mod Places
pub mod Demands
