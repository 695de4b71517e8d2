pub mod RotationSystem
pub mod Twins
