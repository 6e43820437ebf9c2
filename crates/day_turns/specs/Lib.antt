pub mod Lent
pub mod Turns
pub mod Turned
pub mod Tables
