pub mod Calling
pub mod Sharing
pub mod Small
pub mod Flags
