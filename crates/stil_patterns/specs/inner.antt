-- What the contracts of private functions cite.
pub mod Added
pub mod Reading
pub mod Obeying
