pub mod Prefixes
mod MarkSides
mod SeenSoFar
mod CycleSteps
mod CycleLists
mod CycleTracing
mod CycleFound
mod CycleWrites
mod CycleRounds
mod CycleFaces
mod FaceNumbers
pub mod NumbersOf
pub mod Zips
mod ByNumber
mod CycleMembers
pub mod KnownGraph
mod MarkSideComponents
mod FoundCycles
mod Anchors
mod SameFaces
mod CycleSlices
mod OuterCycles
mod Parents
mod NestingLists
mod FaceCounts
mod RankWrites
mod RankSpreads
mod BorderLinks
mod Crossings
mod RankDistances
mod RankWalks
mod WaysOut
mod FaceRanks
