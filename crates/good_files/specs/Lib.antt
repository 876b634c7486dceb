pub mod ScanOff
pub mod GoodFiles
pub mod RunTheorem
pub mod TreeTheorem
pub mod Clauses
pub mod Checks
pub mod Laws
pub mod inner
