-- The definition that a contract of this crate cites beside those of `model`.
pub mod Ends
