mod Apart
pub mod Listed
pub mod Counts
pub mod Elements
pub mod Ids
