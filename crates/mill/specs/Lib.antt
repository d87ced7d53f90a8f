pub mod Tables
pub mod Papers
