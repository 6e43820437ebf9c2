pub mod Decimal
pub mod Blocks
pub mod Opened
