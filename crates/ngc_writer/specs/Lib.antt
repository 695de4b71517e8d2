pub mod Lightings
