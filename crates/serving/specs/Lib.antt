pub mod Serves
pub mod Demands
