-- The laws behind the proofs of this crate.
pub mod Commands
pub mod People
