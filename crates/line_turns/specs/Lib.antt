pub mod Line
pub mod Changes
pub mod Cards
