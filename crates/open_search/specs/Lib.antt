pub mod Verdicts
pub mod Searching
