-- The laws behind the proofs of this crate.
pub mod Loads
pub mod Rules
