-- The laws behind the proofs of this crate. Whoever takes what is handed over cites them too.
pub mod Numbers
