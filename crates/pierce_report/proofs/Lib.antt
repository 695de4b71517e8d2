pub mod Totals
pub mod Tallies
pub mod OddCounts
pub mod ByComponent
pub mod RowLists
pub mod RowLines
pub mod PartLines
pub mod PartFaces
