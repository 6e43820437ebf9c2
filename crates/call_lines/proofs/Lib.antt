pub mod Cut
pub mod Calls
pub mod Searches
pub mod Shares
