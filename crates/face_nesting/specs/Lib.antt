pub mod Cycles
pub mod Sights
pub mod Numbering
pub mod Ranks
pub mod Nesting
pub mod Views
pub mod Places
