-- What ties the code to the definitions of its clauses, and that no public clause names.
pub mod Inserting
pub mod Following
pub mod Histories
pub mod Postponing
pub mod Placed
pub mod Calls
