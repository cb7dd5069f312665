-- What the listing promises.
pub mod Listed
