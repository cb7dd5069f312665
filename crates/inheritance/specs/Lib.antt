pub mod Found
pub mod Order
pub mod Rows
pub mod Closure
