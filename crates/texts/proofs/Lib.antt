pub mod Growing
pub mod Lines
pub mod Lengths
pub mod Running
pub mod Printing
pub mod Verdicts
pub mod Creates
pub mod Told
