pub mod Pieces
pub mod Cuts
pub mod Drafts
pub mod Starts
pub mod Ends
pub mod Planning
pub mod Trails
