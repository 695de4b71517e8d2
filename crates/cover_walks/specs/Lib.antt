pub mod Orders
pub mod Walks
pub mod Choices
pub mod Chains
pub mod Covers
pub mod Laws
