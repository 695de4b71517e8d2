pub mod Entities
pub mod Groups
pub mod Refusals
pub mod Values
pub mod Examples
pub mod EntityBuilder
