pub mod Words
pub mod Literals
pub mod Lines
