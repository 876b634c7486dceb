pub mod Fewer
pub mod inner
