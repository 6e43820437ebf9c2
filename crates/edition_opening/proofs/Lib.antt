pub mod Taking
pub mod Lines
pub mod Turns
pub mod Served
pub mod Apart
pub mod Books
