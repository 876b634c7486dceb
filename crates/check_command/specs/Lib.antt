pub mod Checking
pub mod Top
pub mod inner
