-- What ties the code to the definitions of its clauses, and that no public clause names.
pub mod Causes
pub mod Reading
pub mod Listing
pub mod Marks
pub mod Keys
pub mod CountedKeys
pub mod Designs
pub mod Seen
pub mod Commits
pub mod ById
pub mod ByKey
