pub mod Faults
pub mod Comings
pub mod Planned
pub mod Tasks
pub mod Denials
pub mod Steps
pub mod Hiding
pub mod Leave
