pub mod Numbered
pub mod Calls
pub mod Refused
pub mod Demands
