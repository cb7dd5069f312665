pub mod Within
pub mod Opened
pub mod Lists
pub mod Readings
pub mod Tuples
