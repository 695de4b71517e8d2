pub mod Sound
pub mod Lightings
pub mod Plans
