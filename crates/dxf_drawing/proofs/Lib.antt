pub mod Entities
pub mod Lasts
pub mod Growth
pub mod Rooms
pub mod Holding
pub mod Turns
pub mod Readings
pub mod Lengths
