pub mod TreeTheorem
pub mod Runs
pub mod inner
