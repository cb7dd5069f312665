pub mod Classes
pub mod Sets
