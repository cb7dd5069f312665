pub mod Listed
pub mod Rivals
pub mod Found
pub mod Index
