pub mod Kinds
pub mod Burning
pub mod Verdicts
pub mod Leads
pub mod Laws
