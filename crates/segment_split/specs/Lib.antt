pub mod Meetings
pub mod CutPoints
pub mod Pieces
pub mod Splits
