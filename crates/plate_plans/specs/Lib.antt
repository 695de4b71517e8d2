pub mod Plates
pub mod Plans
pub mod Laws
pub mod Undercutting
