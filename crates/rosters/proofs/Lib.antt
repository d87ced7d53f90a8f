-- The laws behind the proofs of this crate. Whoever takes a roster as lent words cites them too.
pub mod People
pub mod Numbers
