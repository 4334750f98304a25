pub mod Standing
pub mod Model
pub mod Revisions
pub mod Opening
pub mod inner
