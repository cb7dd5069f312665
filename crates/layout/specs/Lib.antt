pub mod Tables
pub mod Listed
pub mod Opened
pub mod Instruction
pub mod Bodies
pub mod Arity
pub mod Bundles
