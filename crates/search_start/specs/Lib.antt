pub mod Match
pub mod Start
