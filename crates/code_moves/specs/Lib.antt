pub mod CodeText
pub mod Words
pub mod History
pub mod Meaning
pub mod Moves
pub mod BurntChains
pub mod Square
