pub mod Apart
pub mod Served
pub mod Books
