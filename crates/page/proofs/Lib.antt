pub mod Columns
pub mod Cells
pub mod Lines
pub mod Faults
pub mod Apart
pub mod Cards
