pub mod Rooms
pub mod Day
