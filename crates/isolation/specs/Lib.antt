pub mod Struck
pub mod Turns
pub mod Isolated
