pub mod Wrote
pub mod Rows
pub mod Appended
