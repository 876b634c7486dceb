pub mod Diagnoses
pub mod inner
