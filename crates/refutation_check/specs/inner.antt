-- What the contracts of private functions cite.
pub mod Images
pub mod Reasons
pub mod Trails
pub mod Sweeps
pub mod Bases
pub mod Checks
pub mod Marks
pub mod Starting
pub mod Ways
