pub mod Names
pub mod Lines
