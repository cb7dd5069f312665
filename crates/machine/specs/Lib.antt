pub mod Held
pub mod Endings
pub mod Progress
pub mod Outcome
