-- The laws behind the proofs of this crate. Whoever reads a roster card cites them too.
pub mod Exits
pub mod Given
