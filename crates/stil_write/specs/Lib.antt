pub mod StilFiles
pub mod Pieces
pub mod Texts
pub mod Sample
pub mod Parts
pub mod inner
