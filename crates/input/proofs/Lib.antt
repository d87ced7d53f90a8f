-- What a loop of reads keeps.
pub mod Reading
