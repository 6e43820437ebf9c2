pub mod Columns
pub mod Lent
