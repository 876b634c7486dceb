-- What the contracts of private functions cite.
pub mod Marks
pub mod Tallies
