pub mod Numbers
pub mod Send
pub mod Opening
pub mod Failures
pub mod Refusals
pub mod Findings
