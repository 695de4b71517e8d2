mod Listed
pub mod GraphHalves
pub mod TrailNumbers
mod Degrees
pub mod OddVertices
mod NamedEdges
mod JoinedHalves
mod OrdersByCuts
mod TrailsOnPlate
mod Limits
pub mod LastEnds
pub mod CoverNumbers
pub mod OuterNumbers
pub mod StartNumbers
