pub mod Outlines
pub mod ChangePages
pub mod ListingPages
pub mod Winners
