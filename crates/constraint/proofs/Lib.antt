pub mod Mentioning
pub mod Inserting
