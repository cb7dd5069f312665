pub mod Judgements
pub mod Implied
