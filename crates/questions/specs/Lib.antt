-- The definitions that the contracts and the laws of this crate cite beside those of `model`.
pub mod Shown
