pub mod Lines
pub mod Texts
pub mod Declared
pub mod Books
pub mod Writing
pub mod Room
