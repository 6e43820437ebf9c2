pub mod Read
pub mod Limits
pub mod Placed
