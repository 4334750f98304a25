pub mod Serving
pub mod Accepting
pub mod Failing
