-- What the contracts of private functions cite.
pub mod Written
pub mod Rounds
pub mod Laws
