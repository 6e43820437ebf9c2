pub mod Accepted
pub mod Lent
