pub mod Within
pub mod Entry
pub mod Tables
