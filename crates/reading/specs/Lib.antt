pub mod Reading
pub mod Marking
pub mod Placed
