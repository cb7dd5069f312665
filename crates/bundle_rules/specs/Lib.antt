pub mod Rules
pub mod Tables
