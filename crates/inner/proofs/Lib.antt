pub mod Gathering
pub mod LastLiteral
pub mod Lookups
pub mod Stepping
pub mod Tested
pub mod Conclusions
pub mod Frees
pub mod Blocks
