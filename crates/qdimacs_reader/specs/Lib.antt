pub mod Words
pub mod Items
pub mod Lines
