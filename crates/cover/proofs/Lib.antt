pub mod Count
pub mod Places
pub mod Bytes
pub mod Rows
pub mod Lines
pub mod Laws
pub mod Stack
