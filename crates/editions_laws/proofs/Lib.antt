pub mod Words
pub mod Lines
pub mod Reading
pub mod Tags
pub mod Converting
pub mod Readers
pub mod One
pub mod Formed
