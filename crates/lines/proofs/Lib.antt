-- The laws behind the proofs of this crate. Whoever puts lines into a text cites them too.
pub mod Figures
pub mod Texts
