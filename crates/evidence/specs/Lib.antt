pub mod Evidence
pub mod Answers
pub mod Laws
