pub mod GoodUnknownFiles
pub mod Clauses
pub mod Theorem
pub mod Checks
pub mod Laws
pub mod inner
