pub mod Applied
pub mod Laws
pub mod inner
