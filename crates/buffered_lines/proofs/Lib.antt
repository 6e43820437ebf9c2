pub mod Books
pub mod Cuts
pub mod Lines
pub mod Runs
