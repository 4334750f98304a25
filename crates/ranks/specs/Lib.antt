pub mod Seen
pub mod Counts
