pub mod Tagged
pub mod Appended
