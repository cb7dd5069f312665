pub mod Rows
pub mod Classes
pub mod Sends
pub mod Bodies
pub mod Operands
pub mod Broken
