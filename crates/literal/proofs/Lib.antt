pub mod Signed
pub mod Chains
pub mod Reducing
