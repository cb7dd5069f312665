pub mod Matrix
pub mod Ancestry
pub mod Prepared
pub mod Places
