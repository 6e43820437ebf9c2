pub mod Judged
pub mod Words
pub mod Flags
pub mod Translated
pub mod Spoken
pub mod Plain
pub mod Room
pub mod Books
