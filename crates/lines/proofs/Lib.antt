pub mod Growing
pub mod Sends
