pub mod Checked
pub mod Back
pub mod Full
