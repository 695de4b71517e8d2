pub mod Cuts
pub mod Ranges
pub mod Pairs
pub mod Groups
pub mod Taken
pub mod Begun
pub mod Answered
pub mod Noted
