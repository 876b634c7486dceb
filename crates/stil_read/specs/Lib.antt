pub mod Tokens
pub mod Reading
pub mod Laws
pub mod Format
pub mod inner
