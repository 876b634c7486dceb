pub mod Claims
pub mod Reports
pub mod Reading
pub mod Laws
pub mod inner
