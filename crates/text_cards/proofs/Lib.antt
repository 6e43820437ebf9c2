pub mod Cards
pub mod Texts
pub mod Paging
pub mod Ample
