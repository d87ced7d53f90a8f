-- The definition that the contracts of this crate cite beside those of `model`.
pub mod Rooms
