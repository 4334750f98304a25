pub mod Spelled
pub mod Settled
pub mod Owed
pub mod Told
