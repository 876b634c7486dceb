pub mod Gates
pub mod Settled
pub mod Known
pub mod Labels
pub mod Paths
pub mod Laws
pub mod Labelling
pub mod Gathered
