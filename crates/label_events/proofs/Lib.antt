pub mod Changing
pub mod Reading
pub mod Places
pub mod Hiding
