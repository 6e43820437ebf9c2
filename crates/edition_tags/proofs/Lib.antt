pub mod Appending
pub mod Tags
pub mod Texts
