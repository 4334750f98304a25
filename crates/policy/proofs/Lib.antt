pub mod Circumstanced
pub mod Fields
pub mod FirstBroken
pub mod RolesListed
pub mod RuleEntries
