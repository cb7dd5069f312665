pub mod Entry
pub mod Rows
pub mod Asked
pub mod Tuples
pub mod Told
