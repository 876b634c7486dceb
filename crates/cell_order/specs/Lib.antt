pub mod Orders
pub mod Ordered
pub mod Given
pub mod inner
