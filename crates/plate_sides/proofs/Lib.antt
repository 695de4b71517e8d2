pub mod HalfEdges
pub mod Components
pub mod Vertices
pub mod Angles
pub mod Sixteen
