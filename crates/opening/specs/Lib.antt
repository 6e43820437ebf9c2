pub mod Stages
pub mod Standing
pub mod Lines
pub mod Blocks
pub mod Forms
pub mod Opened
