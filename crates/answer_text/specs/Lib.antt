pub mod Room
pub mod Answered
pub mod Shown
pub mod Texts
pub mod Books
