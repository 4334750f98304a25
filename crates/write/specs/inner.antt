-- What ties the code to the definitions of its clauses, and that no public clause names.
pub mod AncestryRead
pub mod Drafts
pub mod Edits
pub mod Repeats
pub mod Following
