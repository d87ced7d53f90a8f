pub mod Sets
pub mod Designs
