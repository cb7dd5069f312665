pub mod Leads
pub mod Questions
pub mod Search
pub mod Searches
