pub mod Judging
pub mod Undone
