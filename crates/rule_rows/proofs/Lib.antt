pub mod Rows
pub mod Appending
