pub mod Accepting
pub mod Opening
pub mod Asking
pub mod Finding
pub mod Records
pub mod Storing
