pub mod FreeLines
pub mod NamesRead
pub mod CardTexts
pub mod LastCard
pub mod Kept
