pub mod Places
pub mod Counts
pub mod Parts
pub mod SeenPoints
pub mod TellWords
pub mod Rooms
pub mod Alone
