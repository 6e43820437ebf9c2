pub mod Cases
pub mod Cards
pub mod Pages
pub mod Ceilings
pub mod Queries
pub mod Closest
pub mod OwnLimits
