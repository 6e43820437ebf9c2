pub mod Judging
pub mod Marking
pub mod Faults
pub mod Recording
pub mod Placing
pub mod Querying
