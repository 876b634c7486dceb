pub mod Bounds
pub mod Climbs
pub mod Finish
pub mod Standing
