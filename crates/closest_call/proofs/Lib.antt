pub mod Given
pub mod Telling
pub mod Padded
