-- The laws behind the proofs of this crate. Whoever takes a store as lent words cites them too.
pub mod Designs
pub mod Fits
pub mod Numbers
