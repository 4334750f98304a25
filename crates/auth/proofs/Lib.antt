pub mod TrimLemmas
pub mod HeaderLemmas
pub mod RoleLemmas
