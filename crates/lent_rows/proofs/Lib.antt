pub mod Rows
pub mod Flat
