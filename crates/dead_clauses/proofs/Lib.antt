pub mod Lost
pub mod Next
