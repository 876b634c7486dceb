pub mod Hits
pub mod Words
pub mod Never
pub mod inner
