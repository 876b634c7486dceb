-- What the contracts of private functions cite.
pub mod Tallies
pub mod Passing
pub mod Walk
