pub mod Cases
pub mod OwnLimits
