pub mod Lengths
pub mod Taken
pub mod Rows
