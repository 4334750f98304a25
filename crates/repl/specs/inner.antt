-- What ties the code to the definitions of its clauses, and that no public clause names.
pub mod Joined
pub mod Labels
