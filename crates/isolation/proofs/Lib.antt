pub mod Isolations
pub mod Played
