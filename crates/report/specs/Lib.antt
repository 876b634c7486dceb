pub mod Beginnings
pub mod Counts
pub mod Laws
pub mod Reading
pub mod Reports
pub mod Texts
pub mod inner
