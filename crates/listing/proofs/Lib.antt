-- The laws behind the proofs of this crate.
pub mod Compared
pub mod Listed
pub mod Expanding
pub mod Scopes
pub mod Searching
pub mod Firsts
pub mod Duplicated
