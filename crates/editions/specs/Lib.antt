pub mod Lines
pub mod Opening
pub mod Converting
pub mod Program
