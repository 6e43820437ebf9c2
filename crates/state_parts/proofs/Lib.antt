pub mod Cutting
pub mod Written
pub mod Accepted
pub mod Beginning
