-- The definitions that the contracts of this crate cite beside those of `model`.
pub mod Parts
pub mod Creates
