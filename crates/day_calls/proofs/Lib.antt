pub mod Served
pub mod Texts
