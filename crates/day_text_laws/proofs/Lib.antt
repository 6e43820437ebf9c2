pub mod Texts
pub mod Accounts
pub mod Alone
