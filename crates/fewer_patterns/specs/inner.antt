-- What the contracts of private functions cite.
pub mod Enough
pub mod Aims
pub mod Fronts
pub mod Joined
