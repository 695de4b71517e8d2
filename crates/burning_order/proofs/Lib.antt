pub mod Children
pub mod Numbers
pub mod Outward
pub mod Scan
pub mod Waiting
