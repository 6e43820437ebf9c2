pub mod Checks
pub mod Writing
pub mod Calls
pub mod Served
pub mod Full
pub mod Owing
