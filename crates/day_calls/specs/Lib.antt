pub mod Entered
pub mod Shared
pub mod Opens
