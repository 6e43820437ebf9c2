pub mod Appending
pub mod Decimals
pub mod Lengths
pub mod Written
pub mod Listed
pub mod Shown
