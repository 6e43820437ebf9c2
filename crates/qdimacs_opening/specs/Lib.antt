pub mod Built
pub mod Stands
pub mod Lines
