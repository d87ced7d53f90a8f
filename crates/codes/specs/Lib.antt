-- The definition that contracts of this crate cite beside those of `model`.
pub mod Classes
