pub mod Histories
pub mod Premises
pub mod Promises
pub mod Needed
pub mod Stores
pub mod Once
