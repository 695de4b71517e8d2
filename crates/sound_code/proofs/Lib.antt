mod Trails
pub mod FreeLeadIns
mod Relighting
pub mod MovesAlong
mod LedTrails
mod LedRuns
pub mod SoundPlans
pub mod PlanLightings
pub mod WritableChains
pub mod NearStarts
