pub mod Corners
pub mod Tries
