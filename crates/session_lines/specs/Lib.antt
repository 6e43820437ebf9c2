pub mod Asked
pub mod Line
pub mod Sharing
pub mod Holds
