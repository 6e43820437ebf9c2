pub mod Lines
pub mod Sessions
