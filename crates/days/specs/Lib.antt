pub mod Accounts
pub mod Day
pub mod Promises
