pub mod Negated
pub mod Adding
