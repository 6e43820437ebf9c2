pub mod Sums
pub mod Accounts
pub mod Limited
pub mod Days
pub mod Refused
pub mod Loading
pub mod Demands
