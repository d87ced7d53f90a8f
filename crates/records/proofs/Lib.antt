-- The laws behind the proofs of this crate. Whoever takes records as lent words cites them too.
pub mod Codes
pub mod Places
