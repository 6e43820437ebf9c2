pub mod Plain
pub mod Budgets
pub mod Rows
pub mod Visiting
