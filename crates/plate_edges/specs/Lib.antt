pub mod Cuts
pub mod Edges
pub mod Pieces
pub mod Points
pub mod Laws
pub mod Examples
