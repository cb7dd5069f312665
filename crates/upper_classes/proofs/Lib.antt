pub mod Answers
pub mod Lowest
