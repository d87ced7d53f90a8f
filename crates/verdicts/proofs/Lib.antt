-- The laws behind the proofs of this crate.
pub mod Exits
pub mod Asked
