pub mod State
pub mod Reading
pub mod Derived
pub mod Declare
pub mod Lent
pub mod Rows
