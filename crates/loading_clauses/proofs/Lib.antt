pub mod Filling
pub mod Coding
pub mod Matrix
