pub mod Orientation
pub mod Folds
pub mod OnePoint
