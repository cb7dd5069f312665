pub mod Stores
pub mod Ended
pub mod Sends
pub mod Passes
pub mod Steps
pub mod Runs
