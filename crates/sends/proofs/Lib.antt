pub mod Sent
pub mod Signatures
