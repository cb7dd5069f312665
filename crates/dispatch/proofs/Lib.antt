pub mod Listed
pub mod Rivals
pub mod Indexed
