pub mod Running
pub mod StartWords
