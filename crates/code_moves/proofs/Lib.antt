mod Bytes
mod WrittenLines
mod LineWords
mod CodeLines
mod Pieces
mod Steps
pub mod BurntLegs
mod Chains
pub mod WrittenCode
