pub mod Views
pub mod Formed
pub mod Codes
pub mod Shelves
pub mod Records
pub mod Matrices
pub mod Sets
