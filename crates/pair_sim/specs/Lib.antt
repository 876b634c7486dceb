pub mod Sims
pub mod Rooms
pub mod Laws
pub mod inner
