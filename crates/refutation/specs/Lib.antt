pub mod Pairs
pub mod Steps
pub mod Cones
pub mod Refutations
pub mod Ways
pub mod Laws
