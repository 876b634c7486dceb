pub mod Checking
pub mod Refusals
pub mod Rooms
pub mod inner
