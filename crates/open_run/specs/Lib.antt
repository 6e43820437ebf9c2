pub mod OpenRun
pub mod Asked
