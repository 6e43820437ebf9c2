pub mod Printing
pub mod Ample
