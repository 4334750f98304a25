-- What ties the code to the definitions of its clauses, and that no public clause names.
pub mod Matching
pub mod Candidates
pub mod Kept
pub mod Planning
pub mod Sources
