-- The listing's text as definitions, and what its lines promise.
pub mod Text
pub mod Appended
pub mod Findings
