pub mod Twins
pub mod Chains
