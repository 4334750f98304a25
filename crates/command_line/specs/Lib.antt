pub mod Plan
pub mod Faults
pub mod Statuses
pub mod Words
