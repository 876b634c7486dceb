pub mod Cubes
pub mod Merging
pub mod Filling
pub mod inner
