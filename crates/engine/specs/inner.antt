-- What ties the code to the definitions of its clauses, and that no public clause names.
pub mod Sending
pub mod Rounds
