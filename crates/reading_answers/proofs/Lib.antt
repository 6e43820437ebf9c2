pub mod NearestTexts
pub mod LastCard
pub mod Served
