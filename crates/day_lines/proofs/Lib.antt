pub mod Requests
pub mod Shown
pub mod Shares
pub mod Answers
pub mod Tables
pub mod Books
pub mod Placed
pub mod Lines
