pub mod Orders
pub mod Rows
pub mod Stored
pub mod Words
