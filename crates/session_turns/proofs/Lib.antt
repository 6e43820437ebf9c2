pub mod Requests
pub mod Books
pub mod Calls
pub mod Turns
pub mod Runs
pub mod Ample
