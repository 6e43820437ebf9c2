pub mod Cuts
pub mod Lines
pub mod Asked
