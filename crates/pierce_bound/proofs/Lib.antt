pub mod Tallies
pub mod Counted
pub mod OuterOdd
pub mod Summed
pub mod FromCounts
pub mod NoFewer
