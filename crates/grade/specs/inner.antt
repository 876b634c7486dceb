-- What the contracts of private functions cite.
pub mod Told
pub mod Spread
pub mod Keys
pub mod Spotting
pub mod ByPatterns
