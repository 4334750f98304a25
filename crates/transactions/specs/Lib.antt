pub mod Reading
pub mod Endings
pub mod Sequences
pub mod Commits
pub mod Indexing
pub mod Renewing
pub mod inner
