pub mod Masks
pub mod Linked
pub mod Marked
pub mod Coded
pub mod Standing
