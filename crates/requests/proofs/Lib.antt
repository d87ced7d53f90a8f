-- The laws behind the proofs of this crate.
pub mod Deciding
pub mod Storing
pub mod Answering
pub mod Batching
pub mod Exits
