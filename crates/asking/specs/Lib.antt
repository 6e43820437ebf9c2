pub mod OpenRun
pub mod Answered
pub mod Stored
