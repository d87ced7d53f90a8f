-- The laws behind the proofs of this crate.
pub mod Loaded
pub mod Reading
