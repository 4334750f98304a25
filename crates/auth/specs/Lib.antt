pub mod Hmac
pub mod Headers
pub mod Roles
pub mod Callers
pub mod KnownRoles
