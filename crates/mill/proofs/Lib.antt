pub mod Valid
pub mod Release
