pub mod ServesAt
pub mod StaysAt
pub mod AddedAt
pub mod WithdrawnAt
pub mod Served
