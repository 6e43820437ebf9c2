-- Laws of words as sets, and of rows of words.
pub mod Digits
pub mod Below
pub mod Gathered
pub mod Members
pub mod Outside
pub mod Uniting
pub mod Parts
pub mod Passing
