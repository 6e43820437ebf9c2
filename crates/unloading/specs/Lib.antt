pub mod Written
pub mod Table
