-- What the contracts of private functions cite.
pub mod Unmet
pub mod Steps
pub mod Plans
pub mod Applied
