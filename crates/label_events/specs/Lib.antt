pub mod Lines
pub mod Laws
pub mod Gathered
pub mod Watched
