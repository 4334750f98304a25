pub mod Security
pub mod Verdict
pub mod UpdateRules
pub mod Argument
pub mod ArgumentMembers
pub mod DesignDocuments
