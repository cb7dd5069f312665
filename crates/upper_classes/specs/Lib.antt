pub mod Answered
pub mod Lowest
