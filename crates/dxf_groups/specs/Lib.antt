pub mod Pairs
pub mod Taking
pub mod Steps
pub mod Laws
