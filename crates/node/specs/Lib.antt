pub mod Node
pub mod Step
