-- What the contracts of private functions cite.
pub mod Placing
pub mod Reads
pub mod Refusing
