pub mod Signs
pub mod Gathering
pub mod Judged
pub mod Standing
