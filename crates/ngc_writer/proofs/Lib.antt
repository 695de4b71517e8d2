pub mod ChainLines
pub mod Routes
