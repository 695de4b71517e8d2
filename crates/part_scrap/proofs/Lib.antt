pub mod FacesAt
mod FirstFaults
mod NamesByFace
mod NameReads
mod Scrap
