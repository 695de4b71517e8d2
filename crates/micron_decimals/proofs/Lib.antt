pub mod Bytes
mod Capped
mod Cuts
mod Values
mod Rounding
mod Exactness
mod Exponents
mod Marks
mod Readings
pub mod Nearest
mod Microns
pub mod WrittenNumbers
