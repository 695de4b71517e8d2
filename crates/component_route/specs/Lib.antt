pub mod Courses
pub mod Views
pub mod Scans
pub mod States
