-- What the contracts of private functions cite.
pub mod Held
pub mod Lookups
