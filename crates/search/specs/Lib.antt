pub mod Search
pub mod Visitors
