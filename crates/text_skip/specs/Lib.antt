pub mod Skip
pub mod Fed
