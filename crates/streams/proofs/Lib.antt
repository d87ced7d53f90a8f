-- The laws behind the proofs of this crate.
pub mod Fits
pub mod Wanted
