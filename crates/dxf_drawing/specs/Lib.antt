pub mod Events
pub mod States
pub mod Drawings
pub mod Examples
pub mod DrawingBuilder
pub mod EntityReader
pub mod Reading
pub mod Ranges
