pub mod Known
pub mod Leading
pub mod Narrowing
pub mod Searching
pub mod Trying
pub mod Unfound
