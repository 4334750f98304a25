pub mod Order
pub mod Segments
pub mod Lists
