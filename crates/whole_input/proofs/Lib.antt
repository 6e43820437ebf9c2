pub mod Filling
pub mod Programs
