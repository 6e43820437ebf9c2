pub mod Indices
pub mod Coded
pub mod Descending
pub mod StepMarks
pub mod Unions
pub mod Filling
