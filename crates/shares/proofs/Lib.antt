pub mod Answers
pub mod Days
