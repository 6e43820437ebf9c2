pub mod Refusing
pub mod Faultless
