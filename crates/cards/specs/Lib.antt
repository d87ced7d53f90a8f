-- The definitions that the contracts of this crate cite beside those of `model`.
pub mod Entries
pub mod Given
pub mod People
pub mod Requests
