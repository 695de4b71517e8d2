pub mod FirstSites
