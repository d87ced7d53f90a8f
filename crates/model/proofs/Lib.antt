pub mod Computes
pub mod Cases
pub mod Worked
pub mod Traps
