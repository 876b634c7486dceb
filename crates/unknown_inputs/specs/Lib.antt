pub mod Unknowns
pub mod Opened
pub mod Laws
