pub mod FileVectors
pub mod Fitting
pub mod Laws
pub mod TestFiles
