pub mod Answered
pub mod Turns
pub mod Cards
