pub mod Printed
pub mod Making
