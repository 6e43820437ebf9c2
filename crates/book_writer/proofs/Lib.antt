pub mod Parts
pub mod Places
pub mod Rows
pub mod Digits
pub mod Answers
pub mod Books
pub mod Rooms
