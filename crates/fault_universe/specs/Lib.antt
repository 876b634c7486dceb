pub mod Universe
pub mod Laws
pub mod inner
