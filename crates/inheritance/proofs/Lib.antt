pub mod Orders
pub mod Stack
pub mod Words
pub mod Through
pub mod Rounds
pub mod Search
