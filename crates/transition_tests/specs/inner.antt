-- What the contracts of private functions cite.
pub mod Cubes
pub mod Ends
pub mod Parts
