-- What ties the code to the definitions of its clauses, and that no public clause names.
pub mod Schemas
pub mod Texts
pub mod Queries
pub mod Rows
pub mod IndexRows
pub mod Walks
pub mod Statements
pub mod Counted
