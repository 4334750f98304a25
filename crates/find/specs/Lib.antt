pub mod Answers
pub mod Found
pub mod Queries
pub mod Reading
pub mod IndexRead
pub mod Indexes
pub mod inner
