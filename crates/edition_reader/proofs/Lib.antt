pub mod Lines
pub mod OneCut
