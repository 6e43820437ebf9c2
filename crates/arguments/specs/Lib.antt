pub mod Arguments
pub mod Read
