-- The laws behind the proofs of this crate. Whoever reads a card cites them too.
pub mod Filling
pub mod Places
pub mod Commands
pub mod Writing
pub mod People
