pub mod Pieces
pub mod Lines
pub mod Charted
pub mod Answers
