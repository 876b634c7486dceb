pub mod Turned
pub mod Regions
pub mod Sensitized
pub mod Laws
pub mod Paths
pub mod inner
pub mod Side
