pub mod Rooms
pub mod Rules
pub mod inner
